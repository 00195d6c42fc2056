pub mod ContractWords
pub mod Names
pub mod Abouts
pub mod WatchChildren
pub mod Histories
pub mod Numbers
pub mod Queries
