pub mod Rom
pub mod RomLaws
pub mod Compare
pub mod Ranges
pub mod DumpKinds
