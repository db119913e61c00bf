pub mod KeyReadings
