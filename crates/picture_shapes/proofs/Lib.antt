pub mod Rows
pub mod TermLemmas
