mod LittleLemmas
mod LoneLemmas
mod OnceLemmas
mod OneKeyLemmas
pub mod PrintedLemmas
mod SeenLemmas
pub mod SmallLemmas
pub mod ToldLemmas
pub mod WholeLemmas
