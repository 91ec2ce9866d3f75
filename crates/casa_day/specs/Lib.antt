pub mod Scripts
pub mod Journals
pub mod Refusals
pub mod Days
pub mod Courses
pub mod Lives
pub mod Faults
