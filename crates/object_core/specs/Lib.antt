-- What the contracts speak of.
pub mod Instances
pub mod Logs
