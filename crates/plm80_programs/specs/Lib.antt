pub mod Arguments
pub mod Printed
pub mod Explanations
pub mod Reached
pub mod Following
pub mod Followed
pub mod Pages
