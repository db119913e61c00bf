pub mod CoherenceAnswers
pub mod CoherenceText
