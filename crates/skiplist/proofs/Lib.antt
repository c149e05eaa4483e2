-- Lemmas on the layout, general ones first. They are open to the layers above, which want them of the files that they
-- read and write.
pub mod Sizes
pub mod Digits
pub mod Starts
pub mod Places
pub mod Extents
pub mod Strides
pub mod Following
pub mod Points
pub mod Words
pub mod Walks
