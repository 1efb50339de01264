pub mod Found
pub mod Outcomes
pub mod Rows
pub mod Staying
pub mod Verdicts
pub mod Flows
pub mod Fitting
