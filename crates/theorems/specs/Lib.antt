pub mod Boards
pub mod Cells
pub mod Checkers
