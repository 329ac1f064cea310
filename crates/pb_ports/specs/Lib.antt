pub mod Adapters
pub mod Counts
pub mod Doors
pub mod FakeDoors
pub mod Fakes
pub mod Moments
pub mod Ports
pub mod Starting
