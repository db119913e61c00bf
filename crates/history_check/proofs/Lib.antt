-- What the check of an order stands on.
pub mod Backwards
pub mod Blocks
pub mod Entries
pub mod Forwards
pub mod Limits
