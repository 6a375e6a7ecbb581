pub mod Seen
pub mod Nodes
pub mod Texts
