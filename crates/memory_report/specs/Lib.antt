pub mod Histories
pub mod Laws
pub mod Reports
pub mod Rows
pub mod Text
