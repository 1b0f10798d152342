pub mod Page
pub mod Lines
