pub mod Procedures
pub mod Word
pub mod StackFrame
pub mod FrameView
pub mod FrameEquality
pub mod Fault
pub mod Effects
pub mod Holding
pub mod Moves
pub mod Calls
pub mod Places
pub mod Code
pub mod PointNumbers
-- what the crate's own functions promise one another: no public contract cites these
pub mod Lists
