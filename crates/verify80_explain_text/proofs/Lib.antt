pub mod RunLemmas
pub mod LawLemmas
pub mod TextLemmas
pub mod LineLemmas
pub mod ReachLemmas
