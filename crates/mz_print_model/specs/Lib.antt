pub mod Names
pub mod Printing
pub mod StepsNames
pub mod Shapes
pub mod ReadOff
pub mod Given
