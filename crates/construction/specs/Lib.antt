-- What table a program has, what it is that the two agree, and what compiling promises.
pub mod Construction
pub mod Agreement
pub mod Compile
