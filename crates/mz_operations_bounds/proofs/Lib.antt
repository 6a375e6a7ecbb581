pub mod Pairs
pub mod Folding
pub mod Raising
