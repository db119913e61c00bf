pub mod Beams
pub mod Cuts
pub mod Ends
pub mod Events
pub mod Steps
