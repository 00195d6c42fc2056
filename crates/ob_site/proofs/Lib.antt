pub mod Levels
pub mod Unchanged
pub mod Known
pub mod Asked
pub mod Nodes
pub mod Noted
pub mod Marks
pub mod Ended
pub mod Acted
pub mod Renumbered
pub mod Restarted
pub mod Sound
pub mod Stepped
pub mod Counts
pub mod Keeping
pub mod QuietReads
pub mod Crossing
mod OwnAt
mod BareNodes
