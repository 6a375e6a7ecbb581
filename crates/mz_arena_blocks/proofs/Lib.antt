pub mod Joined
pub mod Placed
pub mod Walked
pub mod Instances
