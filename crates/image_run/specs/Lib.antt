pub mod Befores
pub mod Machines
pub mod Scans
pub mod Noted
pub mod Quiet
pub mod Trapless
