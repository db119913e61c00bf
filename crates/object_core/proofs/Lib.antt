-- The instances, worked out.
pub mod Instances
