pub mod PointRules
pub mod Forms
pub mod Weeks
pub mod Refusals
pub mod RuleWords
pub mod Right
pub mod Views
