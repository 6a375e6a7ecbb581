pub mod Choices
pub mod FirstBytes
pub mod Found
pub mod Tables
