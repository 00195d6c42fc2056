pub mod Draws
pub mod Requests
pub mod Site
pub mod Counts
pub mod Runs
pub mod Tallies
pub mod Lines
pub mod Rows
