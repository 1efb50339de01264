pub mod Command
pub mod Forms
pub mod Numerals
