pub mod Subcommands
pub mod Usage
