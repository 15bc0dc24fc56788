-- What the emitter's functions promise each other. What compiling promises is in crate construction.
pub mod Inside
