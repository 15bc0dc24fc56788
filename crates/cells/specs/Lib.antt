-- The cells of a word, what stands on each, where a move leads, and a head that was moved.
pub mod Cell
pub mod Code
pub mod Head
