pub mod FormLaws
pub mod ImageLaws
