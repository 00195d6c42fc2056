pub mod Alike
pub mod Kept
pub mod Numbered
pub mod Slots
