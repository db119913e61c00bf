pub mod Groups
pub mod Ranks
pub mod Limits
pub mod Found
