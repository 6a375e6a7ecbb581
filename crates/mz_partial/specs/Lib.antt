pub mod Groups
pub mod Costs
pub mod Told
pub mod Totals
pub mod Nodes
pub mod Calls
