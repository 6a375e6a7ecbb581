pub mod Operators
pub mod Numbers
pub mod Views
pub mod Contexts
pub mod RowNodes
