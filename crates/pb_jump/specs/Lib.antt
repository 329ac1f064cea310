pub mod Changing
pub mod Taking
