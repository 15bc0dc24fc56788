-- Laws of the search, of the questions asked of its marks, and of the judge's answer.
pub mod Bytes
pub mod Marking
pub mod Searching
pub mod Following
pub mod Left
pub mod Picking
pub mod Found
pub mod Answers
pub mod Deciding
