-- What the functions of this crate promise one another. No public promise reaches it.
pub mod Inner
pub mod Search
pub mod Methods
