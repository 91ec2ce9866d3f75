pub mod Items
pub mod Footprint
pub mod Stamps
pub mod Change
pub mod Finding
pub mod Written
