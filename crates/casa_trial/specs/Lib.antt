pub mod Ended
pub mod Tried
