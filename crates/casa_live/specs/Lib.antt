pub mod Metrics
pub mod Shown
pub mod Answered
pub mod Tallies
