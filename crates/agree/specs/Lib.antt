pub mod Checks
pub mod OneRecord
