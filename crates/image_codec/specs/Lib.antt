pub mod FieldTable
pub mod Fits
pub mod ImageReading
pub mod Laws
pub mod Spelling
