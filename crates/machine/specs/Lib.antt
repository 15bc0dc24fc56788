-- What one row does, and what the runs of a table reach.
pub mod Step
pub mod Outcome
pub mod Run
pub mod Inside
