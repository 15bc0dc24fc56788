-- Laws of images and of refusals.
pub mod Width
pub mod Image
pub mod Standing
pub mod RowList
pub mod Encoded
pub mod Places
pub mod Reading
pub mod Refusal
pub mod Reasons
pub mod RowCode
pub mod Showing
