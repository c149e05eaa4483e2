-- What the values of the reader of pairs mean, and what reading a pair answers.
pub mod Slots
pub mod Sizes
pub mod Tables
pub mod Changes
pub mod Folds
pub mod Pairs
