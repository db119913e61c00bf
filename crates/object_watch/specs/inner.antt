pub mod Levels
pub mod Passes
