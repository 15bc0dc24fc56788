-- What comes of reading on.
pub mod Coming
