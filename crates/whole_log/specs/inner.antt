pub mod WholeReadings
