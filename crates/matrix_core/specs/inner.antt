-- What both players alone cite.
pub mod Operations
pub mod Plans
