-- Calls that are cut off.
pub mod Calls
pub mod Few
pub mod Instances
pub mod Parts
pub mod Places
