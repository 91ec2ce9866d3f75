pub mod Beginnings
pub mod Clocks
pub mod Looking
pub mod Seats
pub mod Sent
pub mod Serving
pub mod Ticking
