pub mod Given
pub mod Numbers
pub mod Located
pub mod Refused
pub mod Walks
pub mod Served
pub mod FirstWrong
