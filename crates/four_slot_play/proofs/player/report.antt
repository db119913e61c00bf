-- What a report has of its operations, its run and its order.
pub mod Accesses
pub mod CellReports
