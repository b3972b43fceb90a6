pub mod Leads
pub mod Literals
pub mod Notes
pub mod Turns
