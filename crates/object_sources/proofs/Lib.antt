-- The laws, and what each step finds.
pub mod Sourced
