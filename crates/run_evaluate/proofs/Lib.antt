pub mod Held
pub mod Coded
pub mod Steps
pub mod Alone
pub mod Answers
