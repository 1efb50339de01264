pub mod DictatedForms
