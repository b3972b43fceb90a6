pub mod Flows
pub mod Stretches
