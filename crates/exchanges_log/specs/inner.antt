pub mod ExchangeReadings
