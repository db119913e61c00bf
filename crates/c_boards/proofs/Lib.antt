pub mod Pairing
pub mod Putting
pub mod Opening
pub mod Since
