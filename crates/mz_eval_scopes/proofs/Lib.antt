pub mod Slots
pub mod Searched
pub mod Counts
