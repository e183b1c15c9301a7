pub mod Laws
pub mod Area
