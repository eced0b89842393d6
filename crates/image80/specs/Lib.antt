pub mod Case
pub mod CaseLine
pub mod Range
pub mod Regions
pub mod Image
pub mod Lines
pub mod RegionMap
pub mod RegionsFault
pub mod RegionsText
-- what the crate's own functions promise one another: no public contract cites these
pub mod Memory
pub mod Placing
pub mod Reading
