-- Laws of cells, and of heads.
pub mod Cells
pub mod Heads
