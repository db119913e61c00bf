pub mod Limited
pub mod Lost
pub mod Together
pub mod Unsourced
