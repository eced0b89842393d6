pub mod Exchanges
pub mod BoardRun
pub mod Cursor
pub mod Slots
pub mod Keeping
-- what the crate's own functions promise one another: no public contract cites these
pub mod Index
