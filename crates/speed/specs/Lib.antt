pub mod Sums
pub mod Resolved
pub mod Tallies
