pub mod Kinds
pub mod Few
pub mod Given
pub mod Summed
pub mod Sums
pub mod SiteParts
pub mod Tables
pub mod Worded
