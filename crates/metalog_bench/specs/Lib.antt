-- What the functions for the benchmark answer.
-- The checksum and the log are metalog's own definitions.
pub mod Total
