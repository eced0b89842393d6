pub mod Instructions
pub mod Frames
pub mod Explained
pub mod Conditions
pub mod Reaching
pub mod ReachGraph
pub mod Printed
pub mod Laws
