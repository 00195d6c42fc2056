pub mod Again
pub mod Replaying
pub mod Histories
pub mod Gone
mod SmallApart
