pub mod Openings
pub mod Recoveries
pub mod Torn
