pub mod Requests
pub mod Inner
pub mod Desks
pub mod Alone
pub mod Usual
