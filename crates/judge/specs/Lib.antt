-- What the judge's functions promise one another. What they promise together is in crate judgement.
pub mod Inside
