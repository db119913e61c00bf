-- The order of a report.
pub mod Entries
pub mod Placing
pub mod ReportOrder
pub mod Weaving
