pub mod CaseLemmas
mod FoundLemmas
mod CaseTextLemmas
mod OptionLemmas
mod Names
