pub mod Spans
pub mod Evaluation
pub mod Turns
pub mod States
pub mod Stops
pub mod Runs
pub mod Answers
