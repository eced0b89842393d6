pub mod BuiltLemmas
pub mod SayingLemmas
