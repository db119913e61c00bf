-- The rule of the triple buffer is kept by each step.
pub mod Keeps
pub mod Timing
pub mod Placed
