pub mod Fault
pub mod Providers
pub mod Spelled
pub mod Laws
pub mod LibraryFeed
pub mod FeedLaws
pub mod Writing
-- what the crate's own functions promise one another: no public contract cites these
pub mod Unfinished
