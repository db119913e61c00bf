-- Lemmas.
pub mod Groups
pub mod Spans
pub mod Ranks
pub mod Cuts
pub mod Late
pub mod Loops
pub mod Sorted
pub mod Marked
pub mod Placed
pub mod Known
pub mod Assembled
