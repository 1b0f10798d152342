pub mod Tallies
pub mod Tables
pub mod Answers
pub mod Runs
pub mod Reports
pub mod States
pub mod Counted
pub mod Facts
