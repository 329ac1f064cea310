pub mod Bits
pub mod Clock
pub mod Counter
pub mod Div
pub mod Examples
pub mod Lut
pub mod Srgate
