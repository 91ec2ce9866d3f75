pub mod Fields
pub mod Lines
pub mod Separator
pub mod Rows
pub mod Walk
