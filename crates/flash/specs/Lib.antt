-- What a flash part is: read Card, Write, Device and History first; the others build on them.
pub mod Card
pub mod Write
pub mod History
pub mod Device
pub mod Runs
pub mod Image
pub mod Joins
pub mod Contents
pub mod Counts
pub mod Cuts
pub mod ImageCards
pub mod Images
