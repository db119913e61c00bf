pub mod Comings
pub mod Givings
