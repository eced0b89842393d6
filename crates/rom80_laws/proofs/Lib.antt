pub mod LinkedLemmas
pub mod InPlaceLemmas
pub mod RebuiltLemmas
