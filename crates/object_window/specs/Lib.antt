-- What the contracts speak of.
pub mod Windows
pub mod Losses
pub mod Together
pub mod inner
