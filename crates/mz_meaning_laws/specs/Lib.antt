pub mod Outlines
pub mod FreeLocals
pub mod Ties
pub mod Independence
pub mod Spending
pub mod Limits
pub mod Places
pub mod Stopping
