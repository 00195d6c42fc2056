pub mod WordRuns
pub mod OneParts
pub mod Escaping
pub mod Fronts
pub mod Joining
pub mod Writing
