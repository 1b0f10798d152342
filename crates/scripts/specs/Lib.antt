pub mod Added
pub mod Taken
