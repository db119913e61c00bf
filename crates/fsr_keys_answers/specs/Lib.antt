pub mod ByKeys
pub mod KeysAnswers
pub mod SmallAnswers
pub mod SmallKeys
