pub mod BlockLoop
pub mod Due
pub mod Loop
pub mod NameReading
pub mod OwnerTests
pub mod Steps
