pub mod Marks
pub mod Opens
pub mod Places
pub mod Boards
