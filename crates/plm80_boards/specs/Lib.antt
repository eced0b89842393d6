pub mod Boards
pub mod Quiet
-- what the crate's own functions promise one another: no public contract cites these
pub mod BoardLaws
pub mod RangeLaws
