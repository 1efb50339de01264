pub mod KernelImages
pub mod SomeVerdict
pub mod SomeCheck
