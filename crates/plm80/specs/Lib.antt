pub mod Apart
pub mod CommandLine
pub mod Requests
