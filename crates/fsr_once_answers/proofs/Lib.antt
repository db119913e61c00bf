pub mod OnceLemmas
pub mod StatusLemmas
