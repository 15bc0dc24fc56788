-- Laws of what the programs answer.
pub mod Saying
pub mod Answering
pub mod Once
pub mod Enough
