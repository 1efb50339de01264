pub mod CallNames
pub mod Occasions
pub mod Services
