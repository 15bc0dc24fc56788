-- What the readers promise each other, by a machine with a stack. No caller relies on any of it.
pub mod Answers
pub mod Atoms
