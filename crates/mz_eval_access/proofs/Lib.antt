pub mod Indices
pub mod Places
pub mod Reached
pub mod NumberLaws
