-- Laws of letters and of the reasons to refuse.
pub mod Letters
pub mod Reasons
