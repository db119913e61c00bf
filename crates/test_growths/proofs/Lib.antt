pub mod Used
