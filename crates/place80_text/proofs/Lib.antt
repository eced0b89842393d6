mod BoardLemmas
mod OrderLemmas
