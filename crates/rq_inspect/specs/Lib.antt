pub mod Inspections
pub mod Keys
pub mod Lines
pub mod Reports
