pub mod Runs
pub mod Settles
