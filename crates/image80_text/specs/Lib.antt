pub mod Names
pub mod NameText
pub mod Listing
pub mod ListingLaws
-- what the crate's own functions promise one another: no public contract cites these
pub mod Tables
