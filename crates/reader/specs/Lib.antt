-- What reading a text promises.
pub mod Reading
pub mod Inside
