pub mod Opened
pub mod Checkpoints
pub mod WrongWords
pub mod Measured
pub mod Marked
