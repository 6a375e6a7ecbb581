pub mod Rooted
pub mod StepsEqual
pub mod StepsOperands
pub mod Placed
pub mod StepsPlaces
