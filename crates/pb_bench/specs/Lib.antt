pub mod Asks
pub mod Sections
pub mod Tally
pub mod Keeping
