pub mod Paths
pub mod Standing
pub mod Counting
pub mod OpeningTime
pub mod Numbered
pub mod Opened
