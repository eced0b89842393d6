pub mod BoundLemmas
pub mod SumLemmas
pub mod FollowLemmas
pub mod EndLemmas
pub mod ListLemmas
pub mod WorklistLemmas
