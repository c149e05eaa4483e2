-- The log of one block: read Tag, Log and Commit first, then Laws.
pub mod Crc
pub mod Tag
pub mod Log
pub mod Reader
pub mod Commit
pub mod Writer
pub mod Revision
pub mod Laws
pub mod Known
