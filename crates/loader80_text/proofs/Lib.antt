mod BundleLemmas
mod BundledLemmas
mod InputsLineLemmas
pub mod DigitLemmas
pub mod CommaLemmas
pub mod WordLemmas
pub mod TextLemmas
pub mod SpellsLemmas
