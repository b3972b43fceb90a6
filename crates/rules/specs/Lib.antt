pub mod Stops
pub mod Tests
pub mod Charts
pub mod Values
pub mod Arithmetic
pub mod Moves
pub mod Masks
