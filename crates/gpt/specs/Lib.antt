pub mod Table
pub mod Part
