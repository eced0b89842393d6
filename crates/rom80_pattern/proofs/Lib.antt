pub mod ReadingLemmas
pub mod NameLemmas
