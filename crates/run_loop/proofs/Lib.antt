pub mod Flows
pub mod Loop
pub mod Stretches
