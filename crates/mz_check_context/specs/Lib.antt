pub mod Tables
pub mod Locals
pub mod Extending
pub mod Headings
pub mod Known
pub mod Nodes
pub mod Views
