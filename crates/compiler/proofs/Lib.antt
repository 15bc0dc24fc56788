-- Laws of what the emitter writes and sees, and that compiling has one answer.
pub mod Writing
pub mod Seeing
pub mod Operators
pub mod Emission
pub mod AtomRows
pub mod AtomTokens
pub mod Walking
pub mod Stepping
pub mod Nesting
pub mod Branching
pub mod Stating
pub mod Setting
-- compiling
pub mod Compiling
