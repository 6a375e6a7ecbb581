pub mod Arguments
pub mod StepsMade
pub mod StepsBounds
