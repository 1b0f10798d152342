pub mod Cuts
pub mod Exact
pub mod Moving
pub mod Onward
pub mod Ordering
pub mod Telling
pub mod Writing
