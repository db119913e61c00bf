-- What the contracts speak of.
pub mod Ranges
pub mod inner
