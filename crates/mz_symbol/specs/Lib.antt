pub mod Choices
pub mod Symbols
pub mod Arguments
pub mod Runs
pub mod Readings
pub mod Makes
pub mod StepsNodes
pub mod StepsChoices
pub mod Lines
pub mod StepsConstants
pub mod StepsLines
pub mod StepsCons
pub mod Laws
mod SymbolExamples
