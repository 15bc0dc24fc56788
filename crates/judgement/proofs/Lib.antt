-- Laws of numbered situations, of verdicts, counts and marks, and of judging: it has one result.
pub mod Number
pub mod Verdict
pub mod Marks
pub mod Reasons
pub mod Judges
pub mod Answered
pub mod Says
pub mod Counted
