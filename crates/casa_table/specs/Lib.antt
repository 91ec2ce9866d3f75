pub mod Laid
pub mod Same
pub mod Sealed
pub mod Waiting
pub mod Passing
pub mod Flights
pub mod Asking
