pub mod Moments
pub mod Runs
mod Kept
pub mod WholeLines
mod Places
pub mod Torn
mod Standings
