pub mod Fitting
pub mod Scheduled
pub mod Laws
pub mod Posted
pub mod Kept
