pub mod Sums
pub mod Lines
pub mod Sayable
pub mod Said
