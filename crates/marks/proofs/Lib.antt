pub mod Kept
pub mod Fits
pub mod Lines
pub mod Within
pub mod Leads
pub mod Refuses
