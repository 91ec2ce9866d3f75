pub mod Exchanges
pub mod Load
pub mod Shown
pub mod Summary
pub mod Why
