pub mod Rebuilding
