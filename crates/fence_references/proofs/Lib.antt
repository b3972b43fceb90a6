pub mod Spans
pub mod References
