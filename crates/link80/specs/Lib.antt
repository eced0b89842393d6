pub mod Linked
pub mod LinkFault
pub mod DuplicateLaws
pub mod LinkLaws
pub mod Selection
pub use Rattle.link80_select.specs.Selected
-- what the crate's own functions promise one another: no public contract cites these
pub mod Linking
pub mod FirstSight
pub mod Gathered
pub mod Joined
pub mod Starts
pub mod SymbolTables
pub mod Movable
