pub mod Shows
pub mod Chains
pub mod Conditions
pub mod Order
pub mod Reaching
-- what the crate's own functions promise one another: no public contract cites these
pub mod Evidence
