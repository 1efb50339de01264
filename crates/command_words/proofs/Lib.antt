pub mod Digits
pub mod FormParts
pub mod FormRows
pub mod FoundWords
pub mod Plain
pub mod TopWalk
pub mod VerbLists
pub mod VerbWalks
