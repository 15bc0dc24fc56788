-- The tokens as a function of the bytes, and the laws of a text's tokens.
pub mod Ending
pub mod Same
pub mod Runs
pub mod Reach
pub mod Front
pub mod Tokens
pub mod Rising
pub mod Named
pub mod Signed
pub mod Once
pub mod Follow
pub mod Written
