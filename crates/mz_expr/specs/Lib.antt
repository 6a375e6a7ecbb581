pub mod Prefix
pub mod Descent
pub mod StepsClimb
