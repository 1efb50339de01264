pub mod Words
pub mod Further
pub mod Cursors
