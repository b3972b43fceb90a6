pub mod Laid
pub mod Words
pub mod Numbers
pub mod Calls
