pub mod Gathered
pub mod StepsJoining
pub mod ArrayCells
pub mod StepsBranches
pub mod StepsLines
pub mod Told
