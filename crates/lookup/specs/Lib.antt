pub mod Hash
pub mod Pairs
pub mod Slots
pub mod Entries
pub mod Mixing
