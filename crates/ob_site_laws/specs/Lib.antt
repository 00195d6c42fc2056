pub mod SiteLaws
pub mod SinceRows
pub mod Seen
