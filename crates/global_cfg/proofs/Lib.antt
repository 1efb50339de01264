pub mod Pairs
pub mod PointPlaces
pub mod PuttingIn
pub mod LeadingOn
pub mod ExitTargets
pub mod TableRows
pub mod EdgeLists
