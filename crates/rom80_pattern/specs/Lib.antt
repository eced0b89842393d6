pub mod CodeBytes
pub mod Modules
-- what the crate's own functions promise one another: no public contract cites these
pub mod Names
