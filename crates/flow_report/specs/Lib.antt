pub mod Findings
pub mod FindingOrder
pub mod Progress
pub mod Reached
pub mod Noting
pub mod FindingLines
