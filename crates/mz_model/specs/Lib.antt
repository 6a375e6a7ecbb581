pub mod Walks
pub mod Loops
pub mod Matching
pub mod Ending
