pub mod Lasts
pub mod Numbered
pub mod Numberings
pub mod Reads
pub mod Tasks
pub mod inner
