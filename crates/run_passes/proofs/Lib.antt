pub mod Values
pub mod Entries
pub mod Passes
pub mod Turns
