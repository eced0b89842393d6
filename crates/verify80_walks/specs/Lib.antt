pub mod Ways
pub mod Reached
-- what the crate's own functions promise one another: no public contract cites these
pub mod Backwards
