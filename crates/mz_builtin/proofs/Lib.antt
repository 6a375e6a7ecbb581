pub mod IndexLists
pub mod Filters
pub mod Acceptance
pub mod Calls
pub mod ExampleTypes
mod OperatorExamples
mod BuiltInExamples
mod GlobalExamples
mod SignatureExamples
