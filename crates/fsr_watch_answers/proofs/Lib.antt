pub mod FrontLemmas
pub mod PieceLemmas
pub mod ReplyLemmas
pub mod RunLemmas
