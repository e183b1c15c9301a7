pub mod Shifts
pub mod Tables
