mod KeyBodyLemmas
mod KeyEntryLemmas
pub mod KeyLemmas
mod KeyReadLemmas
