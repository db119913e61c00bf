pub mod Fronts
pub mod Pieces
pub mod Runs
pub mod Text
pub mod Words
pub mod inner
