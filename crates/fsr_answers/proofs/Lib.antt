pub mod LowStatus
pub mod AnswerLemmas
pub mod RaceLemmas
pub mod TakenLemmas
