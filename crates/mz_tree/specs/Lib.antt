pub mod Tree
pub mod Views
pub mod Height
pub mod Items
pub mod Data
pub mod Kinds
pub mod Names
pub mod Named
