pub mod More
pub mod Joined
pub mod Pairs
pub mod Taken
