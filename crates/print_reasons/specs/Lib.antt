pub mod Counts
pub mod LogText
pub mod Text
