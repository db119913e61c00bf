-- What the contracts speak of.
pub mod Coherent
pub mod Incoherent
pub mod Answers
pub mod Instances
pub mod inner
