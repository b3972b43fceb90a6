pub mod Returns
pub mod Slots
pub mod Words
pub mod Reading
