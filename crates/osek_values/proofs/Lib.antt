pub mod BitCounts
pub mod LeastFaults
pub mod Lists
pub mod OneAnswer
pub mod Refusals
pub mod Places
