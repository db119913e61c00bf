-- What the contracts speak of.
pub mod Band
pub mod Joined
pub mod Kept
pub mod Numbers
pub mod Orders
pub mod Others
pub mod Reasons
pub mod Schedules
pub mod Searches
pub mod Registers
