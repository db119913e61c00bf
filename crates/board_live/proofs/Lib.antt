mod Records
mod Words
mod Accessing
mod Calling
mod Ending
pub mod Mapping
mod Newest
mod Standing
mod Whole
mod Dealing
mod Same
pub mod Passing
mod Plans
mod Allowed
mod SoFar
mod Together
