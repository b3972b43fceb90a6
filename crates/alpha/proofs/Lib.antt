pub mod Casing
pub mod Fitting
