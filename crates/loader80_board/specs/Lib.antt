pub mod BoardTranscript
pub mod OnBoards
pub mod BoardStates
pub mod BoardLines
pub mod BoardCounts
-- what the crate's own functions promise one another: no public contract cites these
pub mod Keeping
pub mod QuietLaws
