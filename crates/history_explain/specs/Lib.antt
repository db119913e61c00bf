-- What the contracts speak of.
pub mod Breaks
pub mod Points
pub mod inner
