pub mod Mark
pub mod Record
pub mod Texts
pub mod Leads
