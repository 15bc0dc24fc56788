-- Bytes are a well-formed image exactly if each part of them is right; laws of checking.
pub mod Cut
pub mod Framing
pub mod Different
pub mod Decided
pub mod Checks
