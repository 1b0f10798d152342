pub mod Net
pub mod Reading
