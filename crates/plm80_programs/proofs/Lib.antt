mod BlamedLemmas
mod FollowLemmas
mod FurtherLemmas
mod Names
mod MarkLemmas
mod RamLemmas
