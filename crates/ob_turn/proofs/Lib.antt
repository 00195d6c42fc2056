pub mod Numbers
pub mod Histories
pub mod Steps
pub mod Sharing
pub mod Working
