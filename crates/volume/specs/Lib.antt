-- What a whole card holds: State and Pair say what a pair is, Thread the list of pairs, Global what it says as a whole,
-- Files and Tree what its entries are, and Check puts all of it together.
pub mod Fault
pub mod State
pub mod Pair
pub mod Thread
pub mod Global
pub mod Files
pub mod Tree
pub mod Check
pub mod Sizes
pub mod Ways
pub mod Listing
pub mod Rows
pub mod Marks
pub mod Spots
pub mod Examples
pub mod Paths
pub mod Parsed
pub mod Clean
pub mod Laws
