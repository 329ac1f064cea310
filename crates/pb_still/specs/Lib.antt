pub mod Coasting
pub mod Current
pub mod Driving
pub mod Eventful
