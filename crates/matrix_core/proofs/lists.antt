-- Lists: elements after a write.
pub mod Elements
