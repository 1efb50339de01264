pub mod CodeTexts
pub mod Draws
pub mod EventLines
pub mod GeneratedTexts
pub mod LineCounts
pub mod OilTexts
pub mod Writing
