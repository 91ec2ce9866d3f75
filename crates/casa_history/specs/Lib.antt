pub mod Entries
pub mod Settlement
