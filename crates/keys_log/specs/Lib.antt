pub mod KeyFaults
pub mod Keys
pub mod inner
