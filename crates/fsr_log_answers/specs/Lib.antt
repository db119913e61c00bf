pub mod Logs
pub mod Text
