pub mod Advanced
pub mod Coming
pub mod Moving
pub mod Sims
