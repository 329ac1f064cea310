pub mod Made
pub mod Run
pub mod Replayed
pub mod Serve
