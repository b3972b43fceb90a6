pub mod TenPowers
pub mod Negation
pub mod Products
