-- What the tokens of a text are, and where each stands.
pub mod Token
pub mod Tokens
pub mod First
pub mod Inside
