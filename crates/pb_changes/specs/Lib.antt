pub mod Groups
pub mod Past
pub mod Report
pub mod Kept
pub mod Helpers
pub mod Examples
