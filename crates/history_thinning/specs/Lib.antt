-- What the contracts speak of.
pub mod Thinnings
pub mod Answers
pub mod Tasks
pub mod inner
