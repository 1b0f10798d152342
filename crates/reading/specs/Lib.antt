pub mod Calls
pub mod Faults
pub mod Net
pub mod Reading
