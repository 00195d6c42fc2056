pub mod Earliest
pub mod Walk
pub mod Needed
pub mod Above
