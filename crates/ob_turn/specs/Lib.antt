pub mod Callers
pub mod Standing
pub mod Turn
pub mod Work
