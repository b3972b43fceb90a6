pub mod Moving
pub mod Masks
pub mod Storing
pub mod Writes
