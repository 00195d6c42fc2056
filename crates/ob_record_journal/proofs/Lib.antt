mod Texts
pub mod Telling
pub mod Closing
pub mod Whole
