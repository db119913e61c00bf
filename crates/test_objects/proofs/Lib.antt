-- The lock.
pub mod Effects
