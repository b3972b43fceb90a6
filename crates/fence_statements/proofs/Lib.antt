pub mod Notes
pub mod Turns
pub mod Statements
