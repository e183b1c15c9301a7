pub mod Ties
pub mod Laws
