pub mod Noted
-- what the crate's own functions promise one another: no public contract cites these
pub mod Drafts
pub mod PathParts
pub mod Places
pub mod SystemTexts
