pub mod CountLemmas
mod PieceLemmas
mod PlaceLemmas
mod SeenLemmas
