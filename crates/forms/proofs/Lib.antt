pub mod Running
pub mod Going
pub mod After
pub mod Lines
pub mod Walking
pub mod Heads
