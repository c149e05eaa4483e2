-- What the parts of the reading of a whole card mean, and what they answer.
pub mod Names
pub mod Outcomes
pub mod Scans
