pub mod Numbers
pub mod Refusals
pub mod Cuts
pub mod Signed
pub mod Decimals
pub mod Parts
pub mod Hex
pub mod Refusing
