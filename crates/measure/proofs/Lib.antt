pub mod Shown
pub mod Gauging
pub mod Lines
