mod ChunkLemmas
pub mod CompareLemmas
