pub mod PointLemmas
pub mod CallLemmas
pub mod BoundLemmas
pub mod EndLemmas
pub mod ChainLemmas
pub mod NodeLemmas
pub mod TextLemmas
pub mod TableLemmas
