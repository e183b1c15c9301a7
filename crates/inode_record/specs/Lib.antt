pub mod Fields
pub mod Inode
