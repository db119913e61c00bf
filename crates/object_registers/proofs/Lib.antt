-- The laws.
pub mod Effects
pub mod Limits
pub mod Turns
