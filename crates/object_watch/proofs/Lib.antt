-- The laws, and what each step leaves.
pub mod Removing
pub mod FirstEnds
pub mod Going
pub mod Alike
pub mod Taking
pub mod Within
pub mod Putting
pub mod Growing
pub mod Closed
pub mod Passing
pub mod Soonest
pub mod Watching
pub mod Latest
pub mod Finishing
