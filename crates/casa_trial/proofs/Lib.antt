pub mod Played
pub mod Looked
pub mod Told
