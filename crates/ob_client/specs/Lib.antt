pub mod Entries
pub mod Shown
pub mod Feeds
pub mod Mirrors
pub mod Tables
pub mod Sessions
