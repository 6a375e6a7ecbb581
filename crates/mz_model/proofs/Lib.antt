pub mod Steps
pub mod Names
pub mod Declared
pub mod Constrained
pub mod Walked
mod Vars
mod Starts
mod Endings
