pub mod Stacks
pub mod Occupied
pub mod Sources
