pub mod Arguments
pub mod Read
pub mod Compare
pub mod Find
pub mod Modules
pub mod Link
pub mod Locate
pub mod Absolute
-- what the crate's own functions promise one another: no public contract cites these
pub mod RomFaults
pub mod Wrong
