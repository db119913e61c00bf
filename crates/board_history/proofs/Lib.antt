pub mod Members
mod Plans
mod Sorts
pub mod Told
pub mod Timed
pub mod Rising
pub mod Atomic
pub mod There
pub mod Whole
pub mod Last
pub mod Later
pub mod Growing
pub mod Registers
mod Instances
mod Silent
pub mod cut_off
