pub mod BothWays
pub mod ElementAt
pub mod Rowwise
pub mod Rounds
pub mod Letterwise
