pub mod Nets
pub mod Carried
