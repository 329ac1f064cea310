pub mod Choosing
pub mod Encoding
pub mod Examples
pub mod Showing
pub mod Sizes
