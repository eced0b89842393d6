pub mod OptionLemmas
pub mod PairLemmas
pub mod PlacingLemmas
pub mod LocatedLemmas
pub mod BytesLemmas
pub mod PlaceLemmas
pub mod LocatedDisjoint
pub mod LocatedApart
pub mod OverlapLemmas
pub mod LayoutLemmas
pub mod LocatingLemmas
pub mod ChunkLemmas
pub mod LaidOut
pub mod FitLemmas
pub mod LocatedRegions
mod RestartLemmas
mod TextLemmas
mod CauseLemmas
