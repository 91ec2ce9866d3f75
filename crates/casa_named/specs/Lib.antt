pub mod Named
pub mod Overlaid
