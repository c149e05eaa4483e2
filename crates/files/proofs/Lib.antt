-- Lemmas on the blocks and the bytes of files; layers above may cite them all.
pub mod Cards
pub mod Chains
pub mod Rights
pub mod Verdicts
pub mod Reaches
pub mod Contents
pub mod Copies
pub mod Outcomes
