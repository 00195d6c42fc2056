pub mod CauseLemmas
pub mod ToldLemmas
pub mod BesideLemmas
pub mod TurnLemmas
pub mod DialLemmas
