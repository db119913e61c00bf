pub mod Evidence
pub mod Exchanges
pub mod ExchangesText
pub mod Judgements
