pub mod Calls
pub mod Nodes
pub mod Chain
pub mod Laws
pub mod ListText
pub mod GraphText
-- what the crate's own functions promise one another: no public contract cites these
pub mod Points
pub mod Tables
