pub mod Blocked
pub mod InOrder
