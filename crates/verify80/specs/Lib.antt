pub mod Looking
pub mod LookLaws
pub mod Kept
pub mod Starts
pub mod Reached
pub mod Boards
pub mod Soundness
pub mod Vouched
