pub mod Joins
pub mod Laws
pub mod Lists
pub mod Rows
