pub mod KeysText
