-- What checking an image promises.
pub mod Check
