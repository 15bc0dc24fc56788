-- What a table is, what its image is and says, which tables are well formed, where a search finds rows, and what a refusal is.
pub mod Form
pub mod Table
pub mod Image
pub mod WellFormed
pub mod Refusal
pub mod Fields
pub mod RowCode
pub mod Source
pub mod Inside
