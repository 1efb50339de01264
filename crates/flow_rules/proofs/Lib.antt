pub mod Assembling
pub mod PointRules
pub mod BarredValues
pub mod AllowedSets
pub mod AllowedValues
pub mod RuledExits
pub mod RuledPoints
