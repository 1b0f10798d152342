pub mod Finding
pub mod Leaves
pub mod Fanins
pub mod Decisions
