pub mod Seeing
pub mod Turning
pub mod Steps
pub mod Passing
pub mod Entering
pub mod Trying
