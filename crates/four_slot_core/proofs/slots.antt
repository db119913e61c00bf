-- Slots, as intervals.
pub mod Cells
pub mod Records
pub mod Steps
