pub mod Commands
pub mod Lazy
pub mod Meeting
