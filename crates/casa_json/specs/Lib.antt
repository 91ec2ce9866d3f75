pub mod Flights
pub mod Lists
