-- The blocks and the bytes of a file: Verdict and Bytes are what the public calls promise, Steps what the parts of them do.
pub mod Verdict
pub mod Bytes
pub mod Steps
