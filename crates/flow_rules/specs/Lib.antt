pub mod Allowed
pub mod Assembly
pub mod Ruling
pub mod Instructions
