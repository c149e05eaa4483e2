-- Lemmas on cards, writes and runs of writes; layers above may cite them all.
pub mod Blank
pub mod Events
pub mod Refusals
pub mod Sequences
pub mod Units
pub mod Filling
pub mod Rewriting
pub mod Counting
pub mod Cuts
