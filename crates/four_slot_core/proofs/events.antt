-- Events and the invariant of one cell.
pub mod Interleaved
pub mod Keeping
pub mod KeepingFresh
pub mod Mapped
pub mod TwoSides
