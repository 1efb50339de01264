pub mod CallNames
pub mod ImageStep
pub mod ImageTrace
pub mod Laws
pub mod Sites
pub mod Statuses
pub mod Upgrades
pub mod Versions
