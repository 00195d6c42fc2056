pub mod Zones
pub mod Schedules
pub mod Firings
pub mod Rows
pub mod Laws
pub mod Behind
pub mod Search
