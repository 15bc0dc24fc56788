-- What reading answers, and what is said of what failed.
pub mod Reading
pub mod Telling
