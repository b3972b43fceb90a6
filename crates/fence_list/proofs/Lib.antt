pub mod Gathering
pub mod Laying
pub mod Turns
pub mod Statements
