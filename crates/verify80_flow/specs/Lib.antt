pub mod Refusal
pub mod Walks
pub mod Use
pub mod Faults
pub mod Fitting
pub mod Rows
pub mod FittingLaws
pub mod ProgramPoints
pub mod Accepted
-- what the crate's own functions promise one another: no public contract cites these
pub mod Points
pub mod Graph
pub mod Shown
pub mod Known
pub mod PointStore
pub mod Survey
pub mod Walked
