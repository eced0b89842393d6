pub mod Status
pub mod Bundles
