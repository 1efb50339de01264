pub mod ListEdits
pub mod OrderLaws
pub mod TableRows
pub mod FoldLaws
pub mod BareLaws
