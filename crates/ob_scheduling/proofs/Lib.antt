mod Writes
mod Chain
pub mod Files
