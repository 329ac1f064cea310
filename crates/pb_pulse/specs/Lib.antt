pub mod Examples
pub mod Holding
pub mod Pulse
pub mod Queue
pub mod Train
