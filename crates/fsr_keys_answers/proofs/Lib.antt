pub mod ByKeysLemmas
mod KeysLemmas
mod SmallStatusLemmas
