pub mod Answers
pub mod GuaranteedImages
