pub mod Fields
pub mod Faults
pub mod Members
pub mod Commands
pub mod Checks
pub mod LineTexts
pub mod Parts
