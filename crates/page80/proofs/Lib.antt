pub mod LawLemmas
pub mod EscapedLemmas
