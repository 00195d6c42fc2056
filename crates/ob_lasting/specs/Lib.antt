pub mod Lasting
pub mod Records
pub mod Runs
pub mod LastingLaws
pub mod LastingRows
