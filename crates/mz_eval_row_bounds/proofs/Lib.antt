pub mod Places
pub mod Listing
pub mod Shaping
pub mod Counting
