pub mod Bodies
pub mod Rows
