-- The total of a log, one item after the other.
pub mod Sums
