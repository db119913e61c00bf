pub mod Log
pub mod Logs
