pub mod Items
pub mod Sorts
pub mod Tells
pub mod Fields
pub mod WellFormed
pub mod Statements
pub mod Sound
pub mod Table
