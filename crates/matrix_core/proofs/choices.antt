-- The order of stamps, what follows from the law of choices, and that law from what cells answer.
pub mod Rise
pub mod Stamps
pub mod Atomic
pub mod ByAccesses
pub mod Gathered
pub mod Greatest
pub mod Made
