-- Laws of the definitions of a rule.
pub mod Binds
pub mod Edges
-- the machine with a stack, and what comes of a text by it
pub mod Places
pub mod Outcomes
pub mod InOrder
pub mod Texts
pub mod Bounds
pub mod Reasons
-- trees without faults
pub mod Invert
pub mod Within
pub mod Letters
pub mod Machine
