pub mod WholeLogs
pub mod inner
