pub mod Right
pub mod Above
