-- Laws of the lines: how they are written part by part, that each is written in one way, and that the judge's number tells its answer.
pub mod Standing
pub mod Decimal
pub mod Lines
pub mod Judged
