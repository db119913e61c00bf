pub mod Accepted
mod Reading
pub mod CellReading
