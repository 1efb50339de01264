pub mod BestBelow
pub mod CallNames
pub mod Changes
pub mod Levels
pub mod Moves
pub mod Nests
