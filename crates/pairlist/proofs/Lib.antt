-- Lemmas on the walk of the list; layers above may cite them all.
pub mod Members
pub mod Walking
pub mod Searching
pub mod Globals
pub mod Stepping
pub mod Numbering
pub mod Rereading
pub mod Loading
pub mod Visiting
pub mod Entering
pub mod Tripping
