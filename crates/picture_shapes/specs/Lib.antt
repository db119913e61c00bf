pub mod Looks
pub mod Scales
pub mod Shapes
pub mod Visits
