pub mod Editing
pub mod Tallying
pub mod Plans
pub mod Laying
