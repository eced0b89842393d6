pub mod Parts
pub mod Causes
pub mod HighBytes
pub mod ShownPaths
pub mod Reasons
-- what the crate's own functions promise one another: no public contract cites these
pub mod Words
pub mod Ends
pub mod Needs
pub mod Linked
pub mod Found
