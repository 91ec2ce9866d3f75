pub mod Standings
pub mod Differences
pub mod Totals
pub mod Comparisons
