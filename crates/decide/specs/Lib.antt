pub mod Decisions
pub mod Behind
