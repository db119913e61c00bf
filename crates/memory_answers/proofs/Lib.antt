pub mod BufferLemmas
pub mod HandingLemmas
