pub mod Meaning
pub mod Digits
pub mod Columns
