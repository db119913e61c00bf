pub mod LinedLemmas
pub mod NamingLemmas
pub mod KeptLemmas
pub mod NumberLemmas
pub mod TaskLemmas
pub mod ForwardLemmas
pub mod WatcherLemmas
