-- What the programs compile and verdict answer.
pub mod CompileText
pub mod Limit
pub mod JudgeWord
