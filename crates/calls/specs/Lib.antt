pub mod Filled
pub mod OnVolume
pub mod Nodes
