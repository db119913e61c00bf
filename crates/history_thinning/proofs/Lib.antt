-- Lemmas.
pub mod Joined
pub mod Entered
pub mod Growing
pub mod RowLemmas
pub mod Compacted
pub mod Finished
pub mod Steps
pub mod Writes
pub mod Reasons
pub mod Restricting
pub mod Sorting
pub mod Expanding
pub mod Whole
pub mod Ends
