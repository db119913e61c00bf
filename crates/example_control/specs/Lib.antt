pub mod Motors
pub mod Turns
