pub mod Prefixes
pub mod HexadecimalLaws
pub mod NameLaws
pub mod CountLaws
