pub mod Deriving
pub mod Parents
pub mod Targets
pub mod Events
pub mod Watchable
