pub mod MarkLemmas
pub mod PlaceLemmas
pub mod ChosenLemmas
pub mod UniqueLemmas
