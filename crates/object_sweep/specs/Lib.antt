-- What the contracts speak of.
pub mod Rests
pub mod Cuts
pub mod Marks
pub mod Reached
pub mod Verdicts
pub mod inner
