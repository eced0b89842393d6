pub mod Dump
pub mod Places
pub mod Words
pub mod Chunks
pub mod Lies
pub mod LinkLaws
pub mod Lines
pub mod Found
-- what the crate's own functions promise one another: no public contract cites these
pub mod Candidates
pub mod Marks
pub mod Fixups
pub mod Blocks
pub mod Laws
pub mod Patterns
pub mod Listed
pub mod Prints
