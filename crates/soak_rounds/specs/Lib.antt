pub mod Records
pub mod Rounds
pub mod Findings
pub mod Scripts
