pub mod ExitLemmas
pub mod SpaceLemmas
pub mod TransferLemmas
