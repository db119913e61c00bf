pub mod Check
pub mod Histories
pub mod Shapes
pub mod Verdicts
