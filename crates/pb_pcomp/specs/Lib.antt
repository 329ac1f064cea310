pub mod Examples
pub mod Pcomp
