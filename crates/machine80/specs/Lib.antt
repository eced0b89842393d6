pub mod Ports
pub mod ListPorts
pub mod Pages
pub mod Flags
pub mod Arithmetic
pub mod ArithmeticLaws
pub mod End
pub mod Cpu
pub mod Effects
pub mod FactsLaws
pub mod Step
pub mod World
pub mod Run
-- what the crate's own functions promise one another: no public contract cites these
pub mod Kinds
