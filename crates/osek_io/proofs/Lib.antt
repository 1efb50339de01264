pub mod FileChanges
pub mod FirstOf
pub mod HeldTexts
pub mod MeetsShelf
pub mod PlaceMaps
pub mod Turns
