pub mod Logs
pub mod Opens
