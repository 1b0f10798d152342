pub mod Paths
pub mod Marks
pub mod Cones
