-- What the list of pairs means, as it is kept, and what the walk along it answers.
pub mod Rows
pub mod Entries
pub mod Desks
pub mod Visits
pub mod Walks
