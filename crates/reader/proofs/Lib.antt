-- What the readers answer, by the machine with a stack.
pub mod Front
pub mod Moves
pub mod Missed
pub mod Taken
pub mod Alphabet
pub mod Listed
pub mod Depth
pub mod Branches
pub mod Whole
pub mod Tested
pub mod Atoms
pub mod Peek
pub mod Promise
