pub mod Line
