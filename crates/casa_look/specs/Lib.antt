pub mod StateText
pub mod TriedText
pub mod ListText
pub mod FlightText
pub mod SinceText
pub mod DayText
