pub mod Resting
pub mod Seeing
pub mod Ordering
pub mod Passing
pub mod Listing
pub mod Answering
