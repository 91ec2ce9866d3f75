pub mod Values
pub mod Plain
pub mod Fields
pub mod Behind
pub mod FirstFaults
