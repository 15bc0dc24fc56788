-- What the tokens of an atom say, one after the other, what a `?` hands on, and when digits are 0.
pub mod Exits
pub mod Said
pub mod Zero
