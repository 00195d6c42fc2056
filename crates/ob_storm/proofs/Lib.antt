pub mod ClientLemmas
pub mod RequestLemmas
pub mod SiteLemmas
pub mod RunLemmas
pub mod TotalLemmas
pub mod WorkedRows
