pub mod Exits
pub mod Spaces
pub mod Stream
pub mod Transfer
