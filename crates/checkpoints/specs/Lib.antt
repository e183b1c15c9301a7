pub mod Known
pub mod Superblock
pub mod Maps
pub mod Checkpoint
pub mod Numbers
pub mod Inner
