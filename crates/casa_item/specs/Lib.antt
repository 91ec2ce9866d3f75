pub mod Row
pub mod Gathered
pub mod Crossed
pub mod Copies
pub mod Versions
pub mod Numbers
pub mod Stood
