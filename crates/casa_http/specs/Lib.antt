pub mod Question
pub mod HostText
pub mod Routes
pub mod Answered
pub mod Browsed
