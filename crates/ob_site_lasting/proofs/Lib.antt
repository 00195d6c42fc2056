pub mod Apart
pub mod SiteRecords
pub mod SiteRuns
