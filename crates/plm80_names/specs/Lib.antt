pub mod Printed
pub mod Verdict
pub mod Arguments
-- what the crate's own functions promise one another: no public contract cites these
pub mod Places
pub mod Fronts
pub mod FrontLaws
pub mod Blaming
pub mod BlamingLaws
pub mod VerdictLaws
