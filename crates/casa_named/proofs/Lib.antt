pub mod Found
pub mod Ahead
pub mod Merging
pub mod Counted
