pub mod Left
pub mod Through
pub mod Ways
