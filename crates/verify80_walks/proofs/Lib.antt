pub mod WayLemmas
