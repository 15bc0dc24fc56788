-- How many bits are set, and bytes of which none is.
pub mod Ones
pub mod Blank
