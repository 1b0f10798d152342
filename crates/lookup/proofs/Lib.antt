pub mod Probed
pub mod Passed
pub mod Entering
pub mod Standing
pub mod Holding
pub mod Ends
