mod Spelling
mod Slashes
pub mod Parted
mod Asking
pub mod Verbs
pub mod Leading
pub mod Places
pub mod Replies
pub mod Requests
pub mod Apart
pub mod Batches
pub mod Seeing
