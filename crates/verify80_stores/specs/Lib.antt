pub mod Pointers
pub mod Stores
pub mod Boards
pub mod StoresText
pub mod Causes
pub mod DataReach
pub mod Opening
pub mod Listing
-- what the crate's own functions promise one another: no public contract cites these
pub mod StackPointer
pub mod Shown
pub mod WrittenPairs
