-- What the functions of this crate promise one another. No public promise reaches it.
pub mod Atoms
pub mod Emission
pub mod Operators
pub mod Place
pub mod Seeing
pub mod Setting
pub mod Writing
