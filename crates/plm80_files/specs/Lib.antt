pub mod LinkFiles
pub mod FileKinds
pub mod Lines
pub mod UnreadBytes
pub mod Wrong
-- what the crate's own functions promise one another: no public contract cites these
pub mod RangeWords
pub mod WrongLaws
