pub mod Buses
pub mod Delay
pub mod Edges
pub mod Rules
