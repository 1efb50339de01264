pub mod Records
pub mod Watches
