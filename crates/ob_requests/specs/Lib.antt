pub mod Numbers
pub mod Parts
pub mod Calls
pub mod Targets
pub mod AsRules
pub mod BatchCalls
