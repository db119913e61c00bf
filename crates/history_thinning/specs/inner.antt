pub mod Kept
pub mod Entering
pub mod Compacting
pub mod Mapped
