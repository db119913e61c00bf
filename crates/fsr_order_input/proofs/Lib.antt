pub mod FrontLemmas
mod InputLemmas
mod RestLemmas
