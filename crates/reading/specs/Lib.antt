pub mod Meaning
pub mod Verbs
pub mod Orders
pub mod Paths
pub mod Breaks
pub mod Told
