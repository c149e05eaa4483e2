-- What a set of blocks holds, and what an insertion changes.
pub mod Holds
