pub mod Keys
pub mod Walks
pub mod Ranks
pub mod Sortings
pub mod Writes
