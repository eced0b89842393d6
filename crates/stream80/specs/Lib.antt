pub mod Failures
pub mod WholeText
