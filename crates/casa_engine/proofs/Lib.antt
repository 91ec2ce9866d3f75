pub mod Delayed
pub mod Listed
pub mod Positions
pub mod Standing
pub mod Seeing
pub mod Following
pub mod Sums
