pub mod Group
pub mod ByteList
pub mod Table
pub mod BoardText
pub mod Board
pub mod Answers
-- what the crate's own functions promise one another: no public contract cites these
pub mod Reading
