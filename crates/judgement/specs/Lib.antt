-- What a verdict, its count and its marks are, and what judging promises.
pub mod Verdict
pub mod Marks
pub mod Reasons
pub mod Judge
