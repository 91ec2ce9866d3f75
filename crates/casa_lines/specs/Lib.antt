pub mod Lines
pub mod Sayable
pub mod Texts
