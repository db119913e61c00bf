pub mod Rule
pub mod Spread
pub mod Steps
pub mod Words
