-- Lemmas on the reading of pairs; layers above may cite them all.
pub mod Growth
pub mod Maps
pub mod Applied
pub mod Ends
pub mod Folding
pub mod Choosing
pub mod Kept
