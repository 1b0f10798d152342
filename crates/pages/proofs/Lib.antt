pub mod Over
pub mod Wording
