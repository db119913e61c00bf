pub mod LowStatus
pub mod MomentLemmas
