pub mod Ranges
pub mod Bytes
pub mod Names
pub mod Stack
pub mod Lacking
pub mod Known
pub mod Tables
pub mod Suggestion
