pub mod Seen
pub mod Rooms
pub mod Rows
pub mod TakingIn
pub mod WholeLists
