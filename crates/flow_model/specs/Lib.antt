pub mod Changes
pub mod Cases
pub mod Effects
pub mod Rules
pub mod Runners
pub mod Scheduling
pub mod Tests
pub mod Values
