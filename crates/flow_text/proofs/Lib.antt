pub mod FormsApart
pub mod KnownTexts
pub mod LinesApart
