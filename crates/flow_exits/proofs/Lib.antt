pub mod Staying
pub mod LinePlaces
pub mod KernelDecides
pub mod PriorityTests
pub mod ClaimLaws
pub mod SourceNumbers
pub mod NestLevels
pub mod NestConditions
pub mod Arriving
pub mod Steps
pub mod Covering
pub mod ExactExits
pub mod AfterEffect
mod Ceilings
