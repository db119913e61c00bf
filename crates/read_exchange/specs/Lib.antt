pub mod Exchanges
pub mod Headers
pub mod inner
