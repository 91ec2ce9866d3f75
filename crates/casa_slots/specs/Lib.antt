pub mod Walk
pub mod Seat
pub mod Blocked
pub mod Sparse
