pub mod StepsBranches
