pub mod Numbers
pub mod Sought
pub mod RulesAndRecords
pub mod Passes
pub mod Sizes
pub mod Abouts
pub mod Opened
pub mod Words
