pub mod FlowLines
pub mod FormCounts
pub mod GeneratedLine
pub mod Texts
