pub mod Together
pub mod Told
