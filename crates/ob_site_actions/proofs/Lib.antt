pub mod Passed
pub mod Faults
pub mod Otherwise
pub mod Counting
pub mod Selected
pub mod Taking
pub mod Steps
pub mod Nowhere
pub mod Fitting
pub mod Ranged
pub mod Refused
pub mod Targets
mod OwnNodes
pub mod Acked
pub mod Batched
pub mod Pointed
pub mod ByHead
pub mod Valued
