pub mod Plain
pub mod Seen
pub mod Again
pub mod Kept
pub mod Saying
pub mod Readings
mod Ordered
mod Sayables
mod Joined
