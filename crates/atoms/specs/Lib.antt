-- What reading an atom of a condition promises.
pub mod Atom
pub mod Inside
