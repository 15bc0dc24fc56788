-- What only contracts between functions, and laws, cite. No public promise reaches it.
pub mod Same
pub mod Scan
