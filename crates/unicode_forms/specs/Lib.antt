pub mod Data
pub mod Keys
pub mod Closed
pub mod Stream
pub mod Runs
