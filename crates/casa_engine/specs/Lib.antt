pub mod Delays
pub mod Equality
pub mod Fronts
pub mod Ledgers
pub mod Looks
pub mod Passes
pub mod Receipts
