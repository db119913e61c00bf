-- The progress of a process, whatever its cells are.
pub mod Accesses
pub mod Others
