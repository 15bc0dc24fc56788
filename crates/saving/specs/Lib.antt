-- The names of a file that is saved, and where it may stand.
pub mod Names
pub mod Inside
