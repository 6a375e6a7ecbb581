pub mod Caps
pub mod Counts
pub mod Laws
pub mod Steps
