pub mod Seq
pub mod Parts
pub mod Examples
