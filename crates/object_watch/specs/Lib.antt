-- What the contracts speak of.
pub mod Remainders
pub mod Watches
pub mod inner
