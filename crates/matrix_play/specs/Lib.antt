pub mod MatrixEvents
pub mod MatrixReports
pub mod MatrixRuns
pub mod inner
