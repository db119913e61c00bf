pub mod LostLemmas
