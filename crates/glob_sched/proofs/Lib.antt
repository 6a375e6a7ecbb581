pub mod Lines
pub mod Meanings
pub mod Costs
pub mod Places
pub mod Products
pub mod Steps
pub mod Walks
