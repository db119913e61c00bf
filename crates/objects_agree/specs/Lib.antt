-- What the contracts speak of.
pub mod Agreement
pub mod Instances
