pub mod CellReports
pub mod ReportOrders
pub mod Reports
pub mod inner
