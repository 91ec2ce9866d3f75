pub mod Names
pub mod Catalogue
pub mod Entering
pub mod Messages
pub mod OneFlight
pub mod Forms
pub mod FlightCalls
pub mod ShowList
pub mod Whole
pub mod EnterAll
pub mod OpenClose
pub mod Rates
pub mod Swap
pub mod EachCall
pub mod Stamps
mod Footprints
pub mod Written
