pub mod Counting
pub mod Hearing
pub mod Storing
