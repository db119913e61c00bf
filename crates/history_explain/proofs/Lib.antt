-- Lemmas: on the fronts of an order for what breaks it, and on points.
pub mod Early
pub mod Fronts
pub mod Misread
pub mod Overtaken
pub mod PointLemmas
pub mod Verdicts
