pub mod Play
pub mod Cells
