pub mod Crc
pub mod Tabled
