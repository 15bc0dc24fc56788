-- Laws of rows that fit, of a row's step and of what runs reach.
pub mod Fits
pub mod RowFits
pub mod Steps
pub mod Run
