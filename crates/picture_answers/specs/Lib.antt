pub mod Answers
pub mod Run
pub mod Moments
pub mod Scenes
