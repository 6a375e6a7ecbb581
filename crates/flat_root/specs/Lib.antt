pub mod Marks
pub mod Keeps
pub mod Totals
pub mod Posts
pub mod Parts
pub mod Turns
pub mod Objectives
