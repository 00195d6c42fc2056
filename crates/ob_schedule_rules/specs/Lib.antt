pub mod Rules
pub mod Merged
