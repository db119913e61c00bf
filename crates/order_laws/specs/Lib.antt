pub mod OneKey
pub mod Parts
pub mod Regular
