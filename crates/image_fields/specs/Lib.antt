pub mod BlockReading
pub mod Magic
pub mod Reading
pub mod Rules
pub mod TableReading
