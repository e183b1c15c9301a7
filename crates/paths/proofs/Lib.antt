pub mod Parts
pub mod Keys
pub mod Chosen
pub mod Directory
pub mod Walking
pub mod Examples
pub mod Root
pub mod Answers
