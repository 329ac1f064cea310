pub mod Readers
pub mod Acquisitions
pub mod Taking
pub mod Streams
pub mod Kept
pub mod Lending
pub mod Reached
pub mod Examples
