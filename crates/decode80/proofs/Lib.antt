pub mod Cases
pub mod Opcodes
pub mod Operands
pub mod Decoded
pub mod Unused
pub mod Spellings
pub mod FetchLemmas
pub mod CodeAlone
