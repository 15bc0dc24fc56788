-- Laws of bytes that are all 0 and of the count of ones.
pub mod Counting
