-- The definitions and the statements, each module after those that it rests on.
pub mod Tables
pub mod Leaves
pub mod Cuts
pub mod CutLaws
pub mod Keys
pub mod Edges
pub mod Graphs
pub mod Rankings
pub mod Search
pub mod Sessions
pub mod ChoiceLaws
pub mod GraphLaws
pub mod Runs
pub mod RunLaws
pub mod Reports
pub mod Texts
pub mod Worked
