-- The matrix of atomic cells, and its player.
pub mod Accesses
pub mod Agree
pub mod Folds
pub mod Plays
pub mod ReportShapes
pub mod Reports
pub mod Shape
pub mod Steps
pub mod Telling
pub mod Traces
pub mod Turns
