pub mod BudgetLemmas
pub mod RunLemmas
