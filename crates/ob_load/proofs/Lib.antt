pub mod Contents
pub mod LawLemmas
pub mod Crossing
pub mod Levels
