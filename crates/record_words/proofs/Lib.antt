pub mod LineLemmas
mod NumberLemmas
mod TextLemmas
