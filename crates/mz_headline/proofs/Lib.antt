pub mod Sets
pub mod Cells
pub mod Rows
pub mod Names
pub mod Variables
pub mod Defaults
pub mod Slots
pub mod Whole
mod Examples
