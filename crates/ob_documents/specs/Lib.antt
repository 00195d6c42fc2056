pub mod Attributes
pub mod Grammar
pub mod Spelling
pub mod Carried
pub mod Held
