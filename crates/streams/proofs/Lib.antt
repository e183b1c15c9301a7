pub mod StreamLaws
pub mod Laws
pub mod Pouring
pub mod Contents
pub mod TooLong
