pub mod OneAnswer
pub mod SomeAnswer
