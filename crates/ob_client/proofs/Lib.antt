pub mod FeedLemmas
pub mod ShownLemmas
pub mod TableLemmas
pub mod OnceLemmas
pub mod ChangeLemmas
pub mod MirrorLemmas
pub mod SessionLemmas
pub mod UnfinishedLemmas
