pub mod HearingLemmas
mod LimitLemmas
mod CountLemmas
mod StoredLemmas
mod TextLemmas
mod FollowLemmas
pub mod RefusingLemmas
