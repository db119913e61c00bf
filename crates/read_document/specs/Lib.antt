pub mod Document
pub mod Kinds
pub mod LineFields
pub mod Ranges
pub mod Records
pub mod Refusals
pub mod Values
pub mod Keys
