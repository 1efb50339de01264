pub mod BareExits
pub mod Folds
pub mod Order
pub mod Rows
