pub mod NumberLemmas
pub mod TextLemmas
pub mod ValueLemmas
pub mod ArgumentLemmas
pub mod SlipLemmas
pub mod CommandLemmas
