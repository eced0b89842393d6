pub mod ShownLemmas
pub mod SoughtLemmas
pub mod ChainLemmas
pub mod OrderLemmas
pub mod JudgedLemmas
