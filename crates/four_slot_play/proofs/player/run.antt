-- The run over numbered records.
pub mod Numbers
pub mod Traces
