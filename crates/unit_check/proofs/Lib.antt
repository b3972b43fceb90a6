pub mod Scans
pub mod Whole
