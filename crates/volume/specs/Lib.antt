pub mod Open
pub mod Inner
pub mod Rule
