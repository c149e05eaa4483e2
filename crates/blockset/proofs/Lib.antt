-- Lemmas on sets of blocks; layers above may cite them.
pub mod Digits
