-- The rule of the four-slot cell is kept by each step.
pub mod Clear
pub mod Events
pub mod Fresh
pub mod Keeps
pub mod Slots
pub mod Spread
pub mod Timing
