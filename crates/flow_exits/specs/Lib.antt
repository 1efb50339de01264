pub mod Candidates
pub mod Claims
pub mod Deciding
pub mod Needs
pub mod Outcomes
pub mod Arrivals
pub mod Exits
pub mod Leaving
