pub mod LineLemmas
pub mod SpaceLemmas
pub mod SplitLemmas
pub mod WordLemmas
