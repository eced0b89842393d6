pub mod Frames
pub mod Admitted
pub mod Stacks
pub mod InternedFrame
-- what the crate's own functions promise one another: no public contract cites these
pub mod Meets
pub mod Lesser
