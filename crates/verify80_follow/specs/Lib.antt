pub mod Stack
pub mod InterruptedBoards
pub mod Held
pub mod Follows
pub mod Handling
pub mod Promise
pub mod Live
pub mod Tables
pub mod FollowText
pub mod Reaching
-- what the crate's own functions promise one another: no public contract cites these
pub mod Writes
pub mod StepLaws
