pub mod Tape
pub mod Lines
pub mod Journals
pub mod Recovery
pub mod Memory
pub mod Standings
