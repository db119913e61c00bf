pub mod CommandLemmas
pub mod RefusalLemmas
