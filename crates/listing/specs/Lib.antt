pub mod Sections
pub mod Stages
pub mod Listed
