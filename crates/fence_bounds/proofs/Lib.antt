pub mod Seeing
pub mod Bounds
pub mod Fixed
