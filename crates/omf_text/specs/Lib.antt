pub mod Places
pub mod ModuleText
