pub mod Characters
pub mod Reading
pub mod Constructs
pub mod Expansion
pub mod Items
pub mod View
pub mod Judgement
pub mod Waiting
