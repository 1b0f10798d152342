pub mod Sides
pub mod Walks
pub mod Both
pub mod Audits
