pub mod AnyLoose
pub mod Rows
