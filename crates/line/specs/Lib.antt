-- The lines that the programs compile and verdict print, and what it is for a line to stand in a buffer.
pub mod Standing
pub mod Decimal
pub mod CompileLine
pub mod VerdictLine
pub mod Inside
