pub mod Laws
pub mod Numbered
pub mod Alone
pub mod Usual
