pub mod Characters
pub mod References
pub mod Markup
pub mod Pieces
pub mod Documents
pub mod Scanning
pub mod Rows
