pub mod Equal
pub mod Gathered
pub mod Row
pub mod Sorted
pub mod Crossed
pub mod Listed
pub mod InPlace
