pub mod Flights
pub mod Outcome
