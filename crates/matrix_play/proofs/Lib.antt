pub mod matrices
