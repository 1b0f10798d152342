pub mod Refusing
pub mod Sweeping
