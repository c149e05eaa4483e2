-- Lemmas on the reading of a whole card; layers above may cite them all.
pub mod Turning
pub mod Played
pub mod Judging
