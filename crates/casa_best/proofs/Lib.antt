pub mod Cheapest
pub mod Costs
pub mod Best
pub mod Room
pub mod Left
pub mod Limits
pub mod Filed
pub mod Exchanged
