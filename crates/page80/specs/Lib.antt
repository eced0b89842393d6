pub mod Reading
pub mod Escaped
pub mod Pictures
pub mod Scales
-- what the crate's own functions promise one another: no public contract cites these
pub mod Pieces
