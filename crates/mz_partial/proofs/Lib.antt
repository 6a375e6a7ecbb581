pub mod Standing
pub mod ByKind
pub mod Told
pub mod Costing
pub mod Asked
pub mod Saying
pub mod Making
pub mod Partwise
pub mod Taking
pub mod Readying
pub mod Elements
pub mod Quotients
pub mod Places
pub mod Testing
pub mod Parting
pub mod Filling
mod Examples
