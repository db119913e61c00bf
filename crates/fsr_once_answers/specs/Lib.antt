pub mod LinesAnswers
pub mod Once
