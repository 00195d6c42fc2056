pub mod Moments
pub mod Records
pub mod Roles
pub mod Sources
pub mod Sound
