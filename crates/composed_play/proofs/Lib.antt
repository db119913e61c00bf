pub mod boards
