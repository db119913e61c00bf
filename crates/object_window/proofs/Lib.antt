-- A window of a log, and the records that a log may begin with.
pub mod Middles
pub mod Alike
pub mod Picked
pub mod Openings
pub mod Found
