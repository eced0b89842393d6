mod ReadLemmas
mod RunLemmas
mod SessionLemmas
mod Names
mod BoardLemmas
mod FollowedLemmas
