pub mod Ordered
pub mod Readings
pub mod Entries
