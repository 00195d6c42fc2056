pub mod Causes
pub mod Loads
