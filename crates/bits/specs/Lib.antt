-- What bits, bytes and the size of a set are, and a test that tells something.
pub mod Bit
pub mod Byte
pub mod Size
pub mod Tells
pub mod Inside
