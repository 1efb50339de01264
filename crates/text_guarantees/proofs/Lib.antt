pub mod SystemCeilings
pub mod TaskResources
pub mod QuietLocks
pub mod IsrResources
pub mod IsrCode
pub mod TextLaws
