pub mod Targets
pub mod Grammar
pub mod Streams
pub mod Feeding
