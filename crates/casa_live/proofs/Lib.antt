pub mod Tallied
pub mod Written
pub mod Chunks
pub mod Sessions
