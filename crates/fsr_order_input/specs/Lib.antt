pub mod Inputs
pub mod Kinds
pub mod Words
pub mod inner
