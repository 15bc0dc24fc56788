-- The samples of document 01, and what it is for a line of them to be right.
pub mod Sample
pub mod Starred
