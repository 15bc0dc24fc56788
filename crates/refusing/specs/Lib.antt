-- What asking an image, a word and a limit comes to.
pub mod Asking
pub mod Inside
