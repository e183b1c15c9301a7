pub mod ByKind
pub mod Examples
