-- Both ways, for two registers, and an instance.
pub mod Places
pub mod Steps
pub mod There
pub mod Back
pub mod Whole
pub mod Exchanges
pub mod Instances
