pub mod Each
pub mod Examples
pub mod Fields
pub mod Pcap
pub mod Records
pub mod Resting
pub mod Turns
