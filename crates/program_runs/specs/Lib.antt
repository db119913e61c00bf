pub mod Answers
pub mod Faults
pub mod Run
pub mod Shows
