pub mod BodyLemmas
pub mod FaultLemmas
pub mod PackedLemmas
pub mod ReadLemmas
pub mod TextLemmas
