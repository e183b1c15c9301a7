pub mod Reading
pub mod Laws
pub mod Turns
pub mod Leaves
pub mod Elements
pub mod OnWay
pub mod EntryKeys
