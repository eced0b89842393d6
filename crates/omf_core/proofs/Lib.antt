pub mod Completed
pub mod FeedLemmas
pub mod NameText
pub mod Spelled
pub mod SpelledNames
pub mod SpelledRecords
pub mod SpelledWritten
