mod Same
mod Redoing
mod Steps
mod Growing
mod KeptSteps
mod Reopens
mod Reading
mod Restarts
mod Appending
mod Doing
mod Left
mod Acting
mod FrontLemmas
mod Crossing
pub mod Shorter
