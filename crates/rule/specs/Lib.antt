-- What a program is: its tree, its grammar, its limits, its states and rows, the first fault of a text, and what it means.
pub mod Tree
pub mod Grammar
pub mod Limits
pub mod Counts
pub mod Faults
pub mod Meaning
pub mod Inside
