pub mod GoingOn
pub mod Lines
pub mod Traces
pub mod Finished
pub mod Counts
pub mod Cover
