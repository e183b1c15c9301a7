pub mod Lists
pub mod Inner
pub mod Seen
pub mod Told
