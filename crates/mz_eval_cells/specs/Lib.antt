pub mod Meets
pub mod StepsCasts
pub mod Views
