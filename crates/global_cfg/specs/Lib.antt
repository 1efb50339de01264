pub mod PointOrder
pub mod Edges
pub mod Targets
