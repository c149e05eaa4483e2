-- Lemmas on logs; layers above may cite them all. Reading has the laws.
pub mod Linear
pub mod Table
pub mod Turns
pub mod Logs
pub mod Words
pub mod Views
pub mod Paths
pub mod Quiet
pub mod Pieces
pub mod Commits
pub mod Reading
pub mod Puts
pub mod Writes
pub mod Parts
pub mod Known
pub mod Newer
