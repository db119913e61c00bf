pub mod Linked
pub mod Texts
