pub mod PutBy
pub mod Same
pub mod SameReply
pub mod SameRow
pub mod Sorting
pub mod Offers
pub mod Planning
