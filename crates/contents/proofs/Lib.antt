pub mod AgreeLaws
pub mod Laws
pub mod Plain
pub mod Examples
