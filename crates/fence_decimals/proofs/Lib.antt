pub mod Fields
pub mod Tables
pub mod Filling
