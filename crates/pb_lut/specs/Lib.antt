pub mod Expressions
pub mod Functions
pub mod Readings
pub mod Computed
