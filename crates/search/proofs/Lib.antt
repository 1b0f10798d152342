pub mod Wide
pub mod Chosen
pub mod Stepping
pub mod Tied
pub mod Walked
