pub mod Fronts
pub mod Counted
pub mod Formed
pub mod Filled
pub mod Earlier
pub mod Checked
pub mod Laned
