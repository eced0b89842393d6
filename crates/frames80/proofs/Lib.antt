pub mod Reversed
pub mod HashLemmas
pub mod Meeting
pub mod Returned
pub mod PlaceLemmas
pub mod NumberLemmas
