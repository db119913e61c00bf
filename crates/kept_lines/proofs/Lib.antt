pub mod DistinctLemmas
pub mod LinkLemmas
pub mod NumberLemmas
pub mod ReadsLemmas
pub mod TaskLemmas
pub mod TextLemmas
