pub mod Faults
pub mod Net
pub mod Order
pub mod Position
pub mod Reading
pub mod Shape
pub mod Texts
pub mod Written
