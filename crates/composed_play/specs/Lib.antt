pub mod BoardEvents
pub mod BoardReports
pub mod BoardSteps
pub mod Boards
pub mod inner
