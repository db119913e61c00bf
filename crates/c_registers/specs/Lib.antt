pub mod Numbers
pub mod FourSlotCalls
pub mod TripleCalls
pub mod Handles
