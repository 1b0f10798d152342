pub mod Facts
pub mod Candidates
pub mod Ratios
pub mod ByHeightRankingLemmas
pub mod Totals
