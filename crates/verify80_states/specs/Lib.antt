pub mod Bytes
pub mod Marks
pub mod Variables
pub mod Cells
pub mod Known
pub mod Given
pub mod State
pub mod Following
pub mod Steps
pub mod Fitting
pub mod Calls
pub mod FittingTable
pub mod Runs
pub mod Laws
pub mod QuietBoards
-- what the crate's own functions promise one another: no public contract cites these
pub mod Invariants
