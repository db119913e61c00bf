pub mod Loosely
