-- What the program makes.
pub mod Empty
