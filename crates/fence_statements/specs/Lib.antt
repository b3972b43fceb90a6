pub mod Asked
pub mod Notes
