pub mod Halving
pub mod QuietRuns
pub mod FirstAlarms
pub mod Entries
