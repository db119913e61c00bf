-- What the steps say of the operations.
pub mod Counts
pub mod Shape
