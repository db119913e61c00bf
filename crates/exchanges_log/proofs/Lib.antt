pub mod LineLemmas
pub mod NumberedLemmas
pub mod NumberingLemmas
pub mod WholeLemmas
mod ForwardLemmas
