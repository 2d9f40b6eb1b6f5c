pub mod Calls
pub mod Closed
pub mod Comparing
pub mod Reports
pub mod Sayings
