pub mod InTurn
pub mod LineCountLaws
pub mod TextLines
pub mod WritingLaws
