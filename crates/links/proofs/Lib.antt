pub mod Names
pub mod Pouring
pub mod Targets
pub mod Answers
pub mod Counting
