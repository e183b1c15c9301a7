pub mod Open
pub mod Slots
pub mod Volume
pub mod LatestCheckpoint
pub mod Numbers
