pub mod Contents
pub mod Fault
pub mod Modules
pub mod Rules
pub mod Segments
pub mod Laws
pub mod Marks
pub mod Place
pub mod Patches
pub mod ImageByte
pub mod PatchLaws
pub mod SoundModules
pub mod HighReferences
-- what the crate's own functions promise one another: no public contract cites these
pub mod SoundParts
pub mod FewSegments
