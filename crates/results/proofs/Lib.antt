pub mod Results
pub mod Listings
pub mod Entries
pub mod Xids
pub mod Mends
