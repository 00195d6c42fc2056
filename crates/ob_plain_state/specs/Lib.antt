pub mod States
pub mod Fitting
pub mod Dressed
pub mod Parts
