pub mod Operators
pub mod Literals
pub mod Places
pub mod Closing
