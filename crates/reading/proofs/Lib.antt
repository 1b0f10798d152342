pub mod Answering
pub mod Calling
pub mod Continuing
pub mod Growth
pub mod Stepping
