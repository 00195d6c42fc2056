pub mod Limits
pub mod Fitting
pub mod Stops
pub mod Targets
pub mod Own
pub mod Refusing
pub mod Sources
