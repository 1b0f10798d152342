pub mod Highest
pub mod Picks
pub mod Heights
