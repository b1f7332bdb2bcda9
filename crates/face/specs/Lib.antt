pub mod Told
pub mod Calls
pub mod Wide
pub mod Cases
pub mod Unique
