-- Laws of bits, of their change, of tests that compute or tell, of sums and of sizes.
pub mod Bits
pub mod Digits
pub mod Change
pub mod Size
pub mod Along
pub mod Tests
pub mod Over
pub mod Telling
pub mod Sum
