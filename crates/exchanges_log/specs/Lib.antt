pub mod ExchangeFaults
pub mod ExchangeLogs
pub mod ExchangeNumbers
pub mod Numberings
pub mod inner
