pub mod BoardLemmas
pub mod LineLemmas
pub mod AckLemmas
pub mod ScreenLemmas
