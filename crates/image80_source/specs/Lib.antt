pub mod Lines
pub mod Labels
pub mod SourceText
pub mod Source
-- what the crate's own functions promise one another: no public contract cites these
pub mod Placed
