pub mod Listed
pub mod Laid
pub mod Short
pub mod Resume
pub mod Asked
