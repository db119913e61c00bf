pub mod BodyLemmas
mod ListLemmas
