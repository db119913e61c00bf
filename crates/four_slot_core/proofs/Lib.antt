pub mod Pushed
pub mod events
pub mod slots
pub mod traces
