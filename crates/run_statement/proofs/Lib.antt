pub mod Edits
pub mod Places
pub mod Jumps
pub mod Statements
