-- A byte's kind, what stands at a byte, and what comes first from a byte on.
pub mod Sorting
pub mod Signing
pub mod Comes
pub mod Standing
