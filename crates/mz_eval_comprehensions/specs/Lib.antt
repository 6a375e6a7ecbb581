pub mod Views
pub mod StepsTurns
pub mod Presences
pub mod Drawn
pub mod StepsDrawn
