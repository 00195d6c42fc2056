pub mod Numbered
pub mod Offences
pub mod Least
pub mod Views
