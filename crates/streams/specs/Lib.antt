pub mod Stream
pub mod Streams
pub mod Inner
