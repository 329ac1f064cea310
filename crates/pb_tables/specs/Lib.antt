pub mod Bodies
pub mod Tables
pub mod Computed
pub mod Scanning
pub mod Chunks
pub mod Held
