pub mod Taken
pub mod Escapes
pub mod Heads
pub mod Printed
pub mod Elements
pub mod Texts
