pub mod Performed
pub mod Joined
