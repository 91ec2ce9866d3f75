pub mod Lines
pub mod Joined
pub mod Parts
pub mod Bars
pub mod Calendar
pub mod Values
pub mod Written
pub mod ReadBack
