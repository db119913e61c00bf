pub mod Answers
pub mod Run
pub mod RaceAnswers
pub mod Races
