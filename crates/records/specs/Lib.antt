pub mod Directory
pub mod Extent
pub mod Attribute
