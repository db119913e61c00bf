pub mod Rule
pub mod Steps
pub mod Words
pub mod Lent
