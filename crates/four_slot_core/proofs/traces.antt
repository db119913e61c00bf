-- A cell that is stepped in any interleaving.
pub mod AccessesAgree
pub mod Clear
pub mod Counts
pub mod Fresh
pub mod Good
pub mod Items
pub mod Laws
pub mod Mapped
pub mod Records
pub mod Sources
