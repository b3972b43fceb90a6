pub mod Told
pub mod Handed
