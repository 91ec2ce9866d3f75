pub mod LineFeeds
pub mod Waiting
