-- What the tokeniser's functions promise each other. What it promises its callers is in crate text.
pub mod Inside
