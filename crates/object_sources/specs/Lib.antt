-- What the contracts speak of.
pub mod Sources
pub mod inner
