pub mod Held
pub mod Inserts
pub mod Rings
pub mod Lists
