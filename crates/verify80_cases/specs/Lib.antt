pub mod Marks
pub mod Covered
pub mod Suggested
pub mod Standing
pub mod Changes
pub mod Added
pub mod Reach
-- what the crate's own functions promise one another: no public contract cites these
pub mod Reading
pub mod Trails
