-- The theorem of the starred samples, and the decisions by which it is computed.
pub mod Decide
pub mod Explore
pub mod Prove
pub mod Samples
