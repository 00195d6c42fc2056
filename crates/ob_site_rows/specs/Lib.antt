pub mod Printing
pub mod Worked
pub mod Rows
pub mod Openings
pub mod RestartRows
