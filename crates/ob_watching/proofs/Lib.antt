mod Tables
mod Texts
mod Soundness
mod Readable
mod Agreement
mod Following
pub mod Laws
mod SmallLawful
mod Unheld
