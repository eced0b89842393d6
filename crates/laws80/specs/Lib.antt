pub mod Built
pub mod Migrated
