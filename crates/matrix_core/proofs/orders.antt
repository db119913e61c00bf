-- The order of a term, by stamp.
pub mod Behind
pub mod Listing
pub mod Places
pub mod Terms
