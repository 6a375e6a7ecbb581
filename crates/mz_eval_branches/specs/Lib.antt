pub mod BranchLines
pub mod StepsConditions
pub mod Truths
pub mod TableCells
