pub mod Rows
pub mod Messages
